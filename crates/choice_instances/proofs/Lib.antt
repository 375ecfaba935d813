pub mod ItemLemmas
pub mod ListLemmas
pub mod ChoiceLemmas
pub mod BindingLemmas
