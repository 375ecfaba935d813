pub mod Directives
pub mod Lone
pub mod Shows
