pub mod Between
pub mod Composed
pub mod Fitting
pub mod WordFits
pub mod Frames
pub mod Order
pub mod Unique
