pub mod Arguments
pub mod SheetRows
