pub mod Cases
pub mod LargeCases
