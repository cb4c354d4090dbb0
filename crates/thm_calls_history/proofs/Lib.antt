pub mod Theorem
pub mod Example
pub mod Turned
