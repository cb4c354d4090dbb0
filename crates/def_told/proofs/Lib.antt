pub mod DayHeard
pub mod ReaderHeard
pub mod ReaderRows
pub mod RoomHeard
pub mod Wrong
