pub mod Signed
pub mod Held
pub mod Reversal
pub mod Choices
pub mod Parts
