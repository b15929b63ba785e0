pub mod Bus
pub mod Accumulators
pub mod Destinations
pub mod Pointing
