pub mod Rows
pub mod Held
pub mod RecordInLine
pub mod RoundTrip
pub mod Unique
