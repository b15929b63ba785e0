pub mod Written
pub mod Preset
pub mod Replies
pub mod Form
pub mod Promises
