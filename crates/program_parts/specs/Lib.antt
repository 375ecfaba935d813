pub mod Grounding
