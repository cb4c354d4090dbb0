pub mod Heard
pub mod HeardWhole
pub mod Wrong
