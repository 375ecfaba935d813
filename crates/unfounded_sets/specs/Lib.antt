pub mod Dependence
pub mod Loops
pub mod Laws
pub mod inner
