pub mod Board
pub mod Accounted
pub mod Exactly
pub mod Wrong
