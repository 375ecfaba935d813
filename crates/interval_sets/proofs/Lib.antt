pub mod JoinLemmas
pub mod SetLemmas
