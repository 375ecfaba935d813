pub mod ElementLemmas
pub mod RestLemmas
pub mod SideLemmas
