pub mod Kept
pub mod State
pub mod Parsed
pub mod TheoryState
pub mod TheoryParts
pub mod ParsedTheory
pub mod inner
