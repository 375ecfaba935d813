pub mod SortLemmas
pub mod AddLemmas
