pub mod Flags
pub mod Operations
pub mod Answer
