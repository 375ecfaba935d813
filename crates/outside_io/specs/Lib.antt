pub mod Faults
pub mod Told
pub mod Outputs
pub mod Held
pub mod Stops
pub mod Numbered
pub mod MemoryFiles
pub mod MemorySink
