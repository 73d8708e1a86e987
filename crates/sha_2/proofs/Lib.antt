pub mod StateLaws
pub mod CodeLaws
pub mod PartLaws
pub mod WholeLaws
