pub mod Rules
pub mod RuleCases
pub mod Sound
pub mod Observed
