pub mod Grounding
pub mod Lines
pub mod Load
pub mod Laws
