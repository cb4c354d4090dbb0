pub mod Buckets
pub mod LinkSteps
pub mod LookUpSteps
pub mod EnterSteps
pub mod MarkSteps
pub mod Wrong
