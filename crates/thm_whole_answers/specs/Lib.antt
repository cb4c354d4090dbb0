pub mod Worker
pub mod AddEnds
pub mod FinishEnds
pub mod Numbers
pub mod Left
pub mod Stopped
pub mod SheetAdds
pub mod Sheets
