pub mod Subjects
pub mod Taken
