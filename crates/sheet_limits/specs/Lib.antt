pub mod Jobs
pub mod Judge
