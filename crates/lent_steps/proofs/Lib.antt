pub mod StartLaws
pub mod SecretStepLaws
