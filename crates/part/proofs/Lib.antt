pub mod Bare
pub mod Busy
pub mod Seated
