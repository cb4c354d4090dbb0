pub mod Writing
pub mod WritingLaws
pub mod SheetPromises
pub mod SheetCases
pub mod Refusals
pub mod SheetOffset
pub mod Wrong
