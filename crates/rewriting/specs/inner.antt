pub mod Becoming
pub mod Flags
