pub mod Answers
pub mod InC
pub mod WholeAnswers
