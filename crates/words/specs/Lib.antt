pub mod Outcomes
pub mod Refusals
pub mod Operation
pub mod Jump
pub mod Load
pub mod Word
pub mod Order
pub mod OneWord
