pub mod Occurrences
pub mod Taken
pub mod Closing
pub mod Searched
pub mod Laws
