pub mod Bits
pub mod Signed
pub mod Held
pub mod Reversal
pub mod Every
