pub mod Stores
pub mod Rows
