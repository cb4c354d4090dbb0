pub mod AllJobs
pub mod Exactly
pub mod Wrong
