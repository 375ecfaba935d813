pub mod Agreement
pub mod Ordered
