pub mod Heard
pub mod Stops
