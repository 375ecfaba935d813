pub mod View
pub mod Replay
pub mod Judging
pub mod Merged
