pub mod BoundLemmas
pub mod SumLemmas
pub mod StepLemmas
pub mod CountLemmas
pub mod SizedLemmas
