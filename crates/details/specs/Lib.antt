pub mod Details
pub mod WholeCallDetails
