pub mod Chip
pub mod Register
pub mod Sound
pub mod State
pub mod Writing
pub mod Keeping
pub mod Bytes
