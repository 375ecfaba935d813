pub mod Occurring
