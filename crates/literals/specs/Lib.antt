pub mod Truths
pub mod Lits
pub mod Nogoods
pub mod Bounds
pub mod Steps
pub mod Places
pub mod Parts
