pub mod Message
pub mod Told
