pub mod Names
pub mod Next
pub mod Cursor
pub mod Run
