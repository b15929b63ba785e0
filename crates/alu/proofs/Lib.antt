pub mod Sums
pub mod Coded
pub mod Wrapped
pub mod Holding
