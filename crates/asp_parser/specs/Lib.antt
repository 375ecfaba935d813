pub mod Replacement
pub mod Constants
pub mod ConstantTable
pub mod StatementState
pub mod Parsed
pub mod TextState
