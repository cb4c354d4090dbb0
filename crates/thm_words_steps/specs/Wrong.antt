pub mod Steps
pub mod LookUps
