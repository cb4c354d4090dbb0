pub mod Text
pub mod Day
