pub mod Implied
pub mod Assignment
pub mod Growth
pub mod Forced
pub mod inner
