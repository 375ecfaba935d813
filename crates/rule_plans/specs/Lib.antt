pub mod Elements
pub mod inner
