pub mod FoundedLaws
