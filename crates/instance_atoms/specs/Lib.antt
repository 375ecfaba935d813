pub mod Collected
pub mod inner
