pub mod PlainLaws
pub mod VersionLaws
