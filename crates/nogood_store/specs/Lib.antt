pub mod Holding
pub mod Propagation
pub mod Kept
pub mod inner
