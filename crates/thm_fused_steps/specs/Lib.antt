pub mod Records
pub mod Fits
pub mod Plans
pub mod Deeds
pub mod Steps
pub mod Kept
pub mod Posts
pub mod Calls
