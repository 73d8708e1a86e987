pub mod MpintLaws
pub mod ValueLaws
pub mod RoundTrip
pub mod Unique
