pub mod ReaderHeard
pub mod ReaderRows
pub mod WriterHeard
pub mod RoomHeard
pub mod DayHeard
pub mod NeedHeard
