pub mod Demand
pub mod Stays
pub mod Ends
pub mod LongFirst
pub mod ByCount
pub mod Spoiling
pub mod Wrong
