mod NumberLemmas
mod FormLemmas
mod StepLemmas
mod WalkLemmas
mod UseLemmas
mod ReadLemmas
mod ReadingLemmas
pub mod RangeLemmas
