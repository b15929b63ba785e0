pub mod Host
pub mod Events
pub mod Unique
