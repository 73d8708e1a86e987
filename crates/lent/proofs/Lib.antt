pub mod LentLaws
pub mod RoomLaws
pub mod LaidLaws
pub mod Kept
pub mod AsStep
