pub mod SiteLemmas
pub mod AtomLemmas
pub mod LineLemmas
pub mod BindingLemmas
