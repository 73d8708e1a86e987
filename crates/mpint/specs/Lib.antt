pub mod Mpint
pub mod Value
