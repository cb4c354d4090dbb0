pub mod Newest
pub mod Walks
pub mod Entering
pub mod Judged
pub mod Rooms
pub mod Left
