pub mod Known
pub mod Told
pub mod Explained
pub mod Chain
pub mod Learning
pub mod Laws
