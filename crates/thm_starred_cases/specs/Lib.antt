pub mod StarredCases
