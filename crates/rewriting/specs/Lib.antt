pub mod Made
pub mod Rewritten
pub mod Order
pub mod Rewriting
pub mod inner
