pub mod Quoted
pub mod Hexadecimal
pub mod Lines
pub mod Record
pub mod IntelHex
pub mod Image
pub mod Replies
pub mod Promises
