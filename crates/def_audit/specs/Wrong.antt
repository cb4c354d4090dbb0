pub mod Audit
pub mod Refusals
pub mod Turned
