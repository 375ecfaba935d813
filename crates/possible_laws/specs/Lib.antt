pub mod Relevant
pub mod Laws
