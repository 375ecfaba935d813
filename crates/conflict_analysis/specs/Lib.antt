pub mod Justified
pub mod Levels
pub mod Chains
pub mod Marked
pub mod inner
