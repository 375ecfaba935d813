pub mod Work
pub mod Domains
pub mod Meanings
pub mod Tuples
pub mod inner
