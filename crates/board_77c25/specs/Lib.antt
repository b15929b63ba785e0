pub mod LargeRegisters
pub mod LargeRows
pub mod LargeRoundTrip
pub mod LargeUnique
