pub mod Keeping
pub mod Still
