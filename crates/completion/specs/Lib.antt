pub mod Inputs
pub mod Loops
pub mod Tight
pub mod Laws
pub mod inner
