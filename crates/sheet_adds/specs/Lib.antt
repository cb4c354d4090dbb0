pub mod Stops
pub mod Left
pub mod Judged
