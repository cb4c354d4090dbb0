pub mod Whole
pub mod Kept
pub mod Last
pub mod Arcs
pub mod Adds
pub mod Finishes
