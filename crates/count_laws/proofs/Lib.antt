pub mod KeyLemmas
pub mod Counts
pub mod InstanceCounts
pub mod ProgramCounts
