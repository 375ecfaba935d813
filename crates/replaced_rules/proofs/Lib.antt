pub mod Alike
pub mod Terms
pub mod Literals
pub mod Rules
