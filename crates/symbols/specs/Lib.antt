pub mod Symbol
pub mod SymbolCode
pub mod Order
pub mod Text
pub mod Table
pub mod View
pub mod inner
