pub mod TextLemmas
pub mod StatementLemmas
pub mod RefusalLemmas
pub mod OneConstants
pub mod OneTexts
pub mod OneProgram
pub mod SomeTexts
