pub mod Told
pub mod Days
pub mod Answers
pub mod Decimals
