pub mod LentHashLaws
pub mod LentPartLaws
