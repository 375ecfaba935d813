pub mod Invariant
pub mod Lines
pub mod Rooms
