pub mod Checked
pub mod Holding
pub mod Turns
pub mod TreeRules
pub mod WriteLemmas
pub mod PlainValues
mod TreeExamples
