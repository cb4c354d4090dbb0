pub mod Terms
pub mod Order
pub mod OrderLaws
pub mod Seen
pub mod Runs
pub mod Starred
pub mod Cases
pub mod Labels
