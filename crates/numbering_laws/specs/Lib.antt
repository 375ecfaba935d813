pub mod Parts
pub mod Items
pub mod Objective
pub mod Theory
