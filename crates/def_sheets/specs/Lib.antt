pub mod Number
pub mod Job
pub mod Decode
pub mod Write
pub mod Choice
pub mod Offset
pub mod Reading
