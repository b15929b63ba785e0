pub mod Fields
pub mod Places
pub mod JumpCodes
pub mod Word
pub mod RoundTrip
pub mod Unique
