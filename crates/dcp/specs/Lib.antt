pub mod Taps
pub mod Wiper
