pub mod Queued
pub mod Hearing
pub mod Moves
pub mod Going
