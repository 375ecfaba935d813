pub mod Reading
pub mod Pieces
pub mod SeenTerms
pub mod SeenRules
pub mod Orders
