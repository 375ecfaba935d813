pub mod Groundable
pub mod Laws
