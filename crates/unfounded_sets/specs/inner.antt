pub mod Rows
pub mod Outer
pub mod Open
pub mod Sources
pub mod Kept
