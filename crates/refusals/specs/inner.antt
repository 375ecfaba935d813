pub mod Atoms
pub mod Places
pub mod Rows
