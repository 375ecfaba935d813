pub mod NumberLaws
pub mod ItemLaws
pub mod RowLaws
pub mod LineLaws
pub mod WriteLaws
pub mod Turns
pub mod NogoodLaws
pub mod WholeLaws
