pub mod SecretLaws
pub mod WordLaws
