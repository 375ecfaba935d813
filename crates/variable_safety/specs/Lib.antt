pub mod Unsafe
pub mod inner
