pub mod StayLemmas
pub mod MatchLemmas
pub mod FlagLemmas
