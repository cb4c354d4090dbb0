pub mod Tells
pub mod Judged
pub mod Names
pub mod Adds
pub mod Settled
pub mod Enough
pub mod Rows
pub mod Wrong
