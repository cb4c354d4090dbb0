pub mod Held
pub mod Drained
