pub mod Total
pub mod Worlds
pub mod Founded
pub mod Laws
pub mod Sums
pub mod Calm
