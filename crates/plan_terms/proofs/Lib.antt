pub mod Trees
pub mod PlanTerms
