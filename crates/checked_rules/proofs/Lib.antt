pub mod Pieces
pub mod Terms
pub mod Literals
pub mod Rules
pub mod Listing
