pub mod Holds
pub mod Theorem
pub mod Lifted
pub mod Staying
pub mod Indexed
pub mod IndexExact
