pub mod FinishEnds
pub mod Left
pub mod Numbers
pub mod Sheets
pub mod Stopped
