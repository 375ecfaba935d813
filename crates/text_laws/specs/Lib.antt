pub mod ReadsBack
pub mod Answered
