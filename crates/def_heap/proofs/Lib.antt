pub mod Heap
pub mod Positions
pub mod Same
pub mod Way
pub mod Logarithm
pub mod Shifted
pub mod Compared
