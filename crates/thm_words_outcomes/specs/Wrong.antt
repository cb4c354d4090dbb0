pub mod Outcomes
pub mod OutcomeSteps
