pub mod Sizes
pub mod Counts
pub mod Holes
