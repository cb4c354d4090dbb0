pub mod Laying
pub mod Loads
pub mod Minutes
