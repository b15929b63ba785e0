pub mod Replies
pub mod Run
pub mod Events
pub mod Promises
pub mod Counting
pub mod WordsDone
pub mod HostPort
pub mod Resetting
