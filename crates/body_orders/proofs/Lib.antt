pub mod Deciding
pub mod Ordering
pub mod Rules
