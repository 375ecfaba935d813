pub mod Causes
pub mod Alike
