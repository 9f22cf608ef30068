pub mod Any
pub mod Busy
pub mod Moves
pub mod Numbered
pub mod OnePart
pub mod Places
pub mod Seat
