pub mod Times
pub mod Ranges
pub mod ItemSums
pub mod Backs
pub mod Following
pub mod Gathering
pub mod Needing
