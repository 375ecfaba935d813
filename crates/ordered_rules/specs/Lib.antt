pub mod Ordered
pub mod inner
