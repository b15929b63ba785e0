pub mod LargeRoundTrip
pub mod LargeUnique
