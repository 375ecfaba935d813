pub mod TestLemmas
pub mod LeafLemmas
pub mod RowLemmas
pub mod PossibleLemmas
