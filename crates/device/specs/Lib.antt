pub mod Device
pub mod Pointers
pub mod Registers
pub mod Set
pub mod Lent
