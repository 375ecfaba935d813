pub mod SumWorkLemmas
