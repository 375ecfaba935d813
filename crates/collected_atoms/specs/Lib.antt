pub mod Said
pub mod Gathering
pub mod inner
