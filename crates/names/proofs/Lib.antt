pub mod NameLaws
pub mod CursorLaws
pub mod RunLaws
pub mod JoinLaws
