pub mod NewSearch
