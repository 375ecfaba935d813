pub mod Tables
pub mod There
pub mod Layers
pub mod Functions
pub mod Each
pub mod Stated
