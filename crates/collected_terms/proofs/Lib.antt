pub mod Growing
pub mod Merges
pub mod Operations
pub mod Shapes
pub mod Words
