pub mod Limits
pub mod Range
pub mod Refusals
pub mod Every
