pub mod Numbers
pub mod Turns
pub mod Finding
pub mod Meanings
pub mod Programs
