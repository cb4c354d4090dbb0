pub mod Systems
pub mod Held
pub mod Drained
