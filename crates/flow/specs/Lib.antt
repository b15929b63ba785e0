pub mod Stack
pub mod Conditions
