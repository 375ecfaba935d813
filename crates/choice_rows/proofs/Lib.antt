pub mod PlanLemmas
pub mod ElementLemmas
pub mod RowLemmas
