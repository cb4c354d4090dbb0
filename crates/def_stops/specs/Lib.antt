pub mod Stopped
pub mod StoppedSheet
pub mod Known
