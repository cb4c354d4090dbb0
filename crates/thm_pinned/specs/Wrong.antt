pub mod Adds
pub mod Fresh
pub mod PutBack
pub mod Tests
pub mod Cases
