pub mod Order
pub mod Compared
pub mod IndexFirst
pub mod Looked
pub mod Classes
pub mod Taken
pub mod EnteringReads
pub mod GetReads
