pub mod Fitting
pub mod Seats
pub mod Fits
pub mod Kinds
