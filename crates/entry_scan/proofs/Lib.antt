pub mod Fields
pub mod Entries
mod Numbers
