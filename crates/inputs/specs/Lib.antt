pub mod Sizes
pub mod Texts
pub mod Stops
pub mod inner
