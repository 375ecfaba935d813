pub mod RestLaws
pub mod WakeLaws
pub mod RowLaws
pub mod QueueLaws
pub mod SettleLaws
pub mod StepLaws
