pub mod FlagSteps
pub mod SumSteps
pub mod Counted
pub mod HashSteps
pub mod PartLemmas
