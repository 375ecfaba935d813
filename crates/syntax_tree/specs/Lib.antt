pub mod Tree
pub mod Literals
pub mod Statements
pub mod Outcome
pub mod Arithmetic
pub mod Value
pub mod Printed
pub mod inner
