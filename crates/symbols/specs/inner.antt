pub mod Layer
pub mod Layers
pub mod Sorted
