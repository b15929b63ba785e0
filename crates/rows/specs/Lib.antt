pub mod Rows
pub mod RoundTrip
pub mod Unique
