pub mod RoomLaws
pub mod FieldLaws
