pub mod Links
pub mod Holds
pub mod HandsOut
pub mod Reached
pub mod Effects
pub mod Fewer
