pub mod AddPosts
pub mod Five
pub mod FreshWords
pub mod PutBack
pub mod Numerals
pub mod Wrong
