pub mod Awake
pub mod Waking
pub mod Causes
pub mod inner
