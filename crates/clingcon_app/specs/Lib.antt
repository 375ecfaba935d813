pub mod Words
pub mod Texts
pub mod Program
pub mod Printed
pub mod Outcome
pub mod Stops
pub mod Numbering
