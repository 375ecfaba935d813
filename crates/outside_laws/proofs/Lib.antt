pub mod CauseLemmas
pub mod KeyLemmas
