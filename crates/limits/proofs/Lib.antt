pub mod BoolLaws
pub mod RangeLaws
pub mod RefusalLaws
