pub mod Buckets
pub mod Verdicts
