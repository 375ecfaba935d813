pub mod ReplayLemmas
pub mod SameLemmas
pub mod EndLemmas
pub mod AnswerLineLemmas
pub mod NextLemmas
pub mod ClaimedLemmas
pub mod JudgeLemmas
pub mod TableLemmas
