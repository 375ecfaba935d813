pub mod Occurring
pub mod Taking
pub mod Knowing
