pub mod Minutes
pub mod Rising
pub mod Judged
pub mod Served
