pub mod Keys
pub mod Counting
pub mod Laws
