pub mod History
pub mod Onward
pub mod Noted
