pub mod RowLemmas
pub mod ElementLemmas
pub mod PartLemmas
pub mod PlanLemmas
pub mod StopLemmas
