pub mod RunLemmas
pub mod TotalLemmas
