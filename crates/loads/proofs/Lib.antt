pub mod Free
pub mod Taken
pub mod Places
pub mod Wide
pub mod Witness
