pub mod Words
pub mod Constants
pub mod Blocks
pub mod Message
pub mod Roots
