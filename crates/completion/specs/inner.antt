pub mod Parts
pub mod Waits
