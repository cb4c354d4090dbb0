pub mod Board
pub mod Heard
pub mod Told
