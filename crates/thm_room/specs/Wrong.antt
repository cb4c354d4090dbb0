pub mod Rooms
pub mod Orders
pub mod Enough
