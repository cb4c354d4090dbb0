pub mod Offsets
pub mod Readers
