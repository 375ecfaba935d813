pub mod DirectiveLemmas
pub mod LoneLemmas
pub mod ShowLemmas
