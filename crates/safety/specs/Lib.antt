pub mod Judgement
pub mod inner
