pub mod Latching
pub mod Lock
