pub mod Comes
pub mod Refusals
pub mod Numbers
