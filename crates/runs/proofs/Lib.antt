pub mod Bits
pub mod Closing
pub mod Events
pub mod Latching
pub mod Lawful
pub mod Locking
pub mod Placing
pub mod Seated
