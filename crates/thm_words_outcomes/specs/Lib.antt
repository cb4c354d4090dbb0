pub mod Outcomes
pub mod OutcomeWords
pub mod Origins
pub mod Fields
pub mod OutcomeSteps
pub mod NoteSteps
pub mod OutcomeItems
pub mod Wrong
