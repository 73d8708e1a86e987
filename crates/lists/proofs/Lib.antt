pub mod PutLaws
pub mod ListsLaws
pub mod Joined
