pub mod Lawful
pub mod Lock
