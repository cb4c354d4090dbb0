pub mod Boards
pub mod Heard
