pub mod Days
pub mod Measure
