pub mod Zips
pub mod InstanceLemmas
pub mod FormLemmas
pub mod VariableLemmas
pub mod DirectiveLemmas
