pub mod Levels
pub mod Giving
pub mod Laws
