pub mod PartLaws
