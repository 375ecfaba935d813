pub mod Founding
pub mod inner
