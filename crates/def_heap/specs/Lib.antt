pub mod Rank
pub mod Sift
pub mod Looked
pub mod Compared
