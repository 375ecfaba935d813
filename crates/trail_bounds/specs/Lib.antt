pub mod OnTrail
pub mod Items
pub mod Sides
pub mod Backing
pub mod Needing
pub mod inner
