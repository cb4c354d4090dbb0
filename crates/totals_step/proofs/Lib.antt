mod Sums
pub mod Running
