pub mod ChoiceRows
