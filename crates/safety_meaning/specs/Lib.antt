pub mod Program
pub mod Failures
pub mod Ordered
pub mod Reordered
pub mod Laws
