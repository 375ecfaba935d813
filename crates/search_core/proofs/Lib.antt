pub mod SearchLaws
pub mod TurnLaws
pub mod SeekLaws
pub mod RoomLaws
pub mod FirstLaws
