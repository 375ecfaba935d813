pub mod QuietLaws
pub mod LevelLaws
pub mod EventLaws
pub mod LineLaws
pub mod HoldLaws
