pub mod Shifts
pub mod Places
pub mod JumpCodes
pub mod Codes
pub mod RoundTrip
pub mod Unique
