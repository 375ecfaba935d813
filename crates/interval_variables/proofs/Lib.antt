pub mod Reading
pub mod Scopes
pub mod FreshTerms
pub mod ScopedRules
pub mod Ranks
pub mod Binding
