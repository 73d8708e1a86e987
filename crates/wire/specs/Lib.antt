pub mod Causes
pub mod Parts
pub mod Strings
pub mod Told
