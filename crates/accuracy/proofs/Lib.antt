pub mod Mix
pub mod Stages
pub mod Words
pub mod Listed
pub mod Demand3
pub mod Corollaries
pub mod Examples
