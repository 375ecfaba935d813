pub mod LinesProof
pub mod ReasonLaws
pub mod StateLaws
pub mod LessonLaws
pub mod ExplainedLaws
