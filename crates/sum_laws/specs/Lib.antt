pub mod SumWork
