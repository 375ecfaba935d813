pub mod LinearLemmas
pub mod SizeLemmas
pub mod AnswerLemmas
