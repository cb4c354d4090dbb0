pub mod StateHeard
pub mod ToldApart
pub mod Wrong
