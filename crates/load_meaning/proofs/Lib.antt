pub mod OneGrounding
pub mod OneLines
pub mod OneLoad
pub mod SameModels
