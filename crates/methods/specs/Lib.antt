pub mod Ascii
pub mod Rows
pub mod Form
pub mod Sound
