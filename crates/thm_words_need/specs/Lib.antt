pub mod Parts
pub mod Need
pub mod Seats
pub mod Plans
pub mod Stores
pub mod Within
