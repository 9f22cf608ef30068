pub mod Chip
pub mod Keeping
