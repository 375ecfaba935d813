pub mod AlikeLemmas
pub mod RowLemmas
pub mod RuleLemmas
