pub mod Notices
pub mod Finish
