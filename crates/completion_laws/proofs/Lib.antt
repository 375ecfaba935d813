pub mod InputLemmas
