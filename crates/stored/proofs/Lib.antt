pub mod StoredLaws
pub mod RoundTrip
