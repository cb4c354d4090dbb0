pub mod Calls
pub mod Sheets
pub mod Whole
pub mod Loads
