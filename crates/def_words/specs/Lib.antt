pub mod Columns
pub mod Layout
pub mod Stored
pub mod Sized
pub mod Index
pub mod Words
pub mod Observed
pub mod WordCases
