pub mod Sheets
pub mod Bits
