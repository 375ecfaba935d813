pub mod Lists
pub mod Answering
pub mod Twins
pub mod Verdicts
pub mod Searching
