pub mod Widths
pub mod Places
pub mod Set
