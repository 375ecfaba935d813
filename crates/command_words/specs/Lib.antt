pub mod Numbers
pub mod Answers
pub mod Words
pub mod Settings
pub mod Ranges
pub mod Matches
pub mod Forms
pub mod inner
