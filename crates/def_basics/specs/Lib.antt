pub mod Base
pub mod Laws
pub mod Stores
pub mod Counting
