pub mod Interface
pub mod StateHeard
pub mod BoardHeard
pub mod Lent
pub mod BoardWithin
