pub mod Ends
pub mod Passing
pub mod Standing
pub mod Statements
pub mod Naming
pub mod Counting
pub mod Rules
