pub mod Whole
pub mod Sheet
pub mod CallEnds
