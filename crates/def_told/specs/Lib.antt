pub mod Reader
pub mod Writer
pub mod WriterHeard
pub mod Room
pub mod Day
pub mod Needed
pub mod NeedHeard
