pub mod History
pub mod Told
pub mod Demand3
pub mod HandedOut
pub mod Completed
pub mod FewerBytes
