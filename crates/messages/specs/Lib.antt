pub mod Payload
pub mod Position
pub mod Messages
