pub mod Meaning
pub mod Standing
pub mod Touching
pub mod Shown
pub mod Quiet
pub mod Several
pub mod Turns
