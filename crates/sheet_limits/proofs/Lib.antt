pub mod Sizes
pub mod Judging
pub mod Rows
