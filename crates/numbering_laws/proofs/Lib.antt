pub mod ApartLemmas
pub mod MadeLemmas
pub mod PartLemmas
pub mod ItemLemmas
pub mod ObjectiveLemmas
pub mod TheoryLemmas
