pub mod MethodLaws
pub mod FormLaws
