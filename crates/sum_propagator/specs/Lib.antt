pub mod Sums
pub mod Objective
pub mod Kinds
pub mod Sides
pub mod Reasons
pub mod Moves
