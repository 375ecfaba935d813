pub mod Ways
pub mod Judged
pub mod Laws
