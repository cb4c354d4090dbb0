pub mod Base
pub mod Deed
pub mod Deeds
pub mod Own
