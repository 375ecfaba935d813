pub mod Occurring
pub mod Binding
pub mod Noting
