pub mod Lists
pub mod Occurs
pub mod Binds
pub mod Notes
pub mod Unsafes
pub mod Reading
