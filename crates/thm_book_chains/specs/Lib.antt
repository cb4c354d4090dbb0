pub mod Chain
pub mod Worked
pub mod Lawful
pub mod Joined
pub mod Labelled
pub mod Kept
pub mod Chains
