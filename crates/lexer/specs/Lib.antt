pub mod Bytes
pub mod Forms
pub mod Parts
pub mod Tokens
pub mod Faults
pub mod Places
pub mod inner
