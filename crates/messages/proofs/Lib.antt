pub mod PayloadLaws
pub mod MessageLaws
pub mod RoundTrip
pub mod PositionLaws
pub mod CutLaws
