pub mod Reading
pub mod Places
pub mod Orderable
pub mod Parts
