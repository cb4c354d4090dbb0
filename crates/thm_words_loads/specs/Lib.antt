pub mod Laying
pub mod Loads
pub mod MinutesElsewhere
pub mod Wrong
