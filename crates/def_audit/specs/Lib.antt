pub mod Audit
pub mod Served
pub mod Exact
pub mod InTurn
pub mod Wrong
