pub mod Exact
pub mod Deeds
pub mod Listed
pub mod Adding
pub mod Demand3
pub mod Corollaries
pub mod Examples
