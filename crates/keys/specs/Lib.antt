pub mod Keys
pub mod Derived
pub mod KeysTold
