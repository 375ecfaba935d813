pub mod Pieces
pub mod Terms
pub mod Statements
