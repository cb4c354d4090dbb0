pub mod Taken
pub mod Added
pub mod Contracts
pub mod StateHeard
pub mod BoardHeard
pub mod Lent
