pub mod CauseLaws
pub mod PartLaws
pub mod StringLaws
pub mod RoundTrip
pub mod WalkLaws
pub mod StringsLaws
