pub mod Waits
pub mod Slots
pub mod Moved
pub mod Queued
pub mod Notified
pub mod Elsewhere
