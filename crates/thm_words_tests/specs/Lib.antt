pub mod Tests
pub mod Judged
pub mod Reach
pub mod OneWord
pub mod Small
