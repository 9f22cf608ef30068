pub mod Bare
pub mod Chips
pub mod Keeps
pub mod Moves
pub mod Ops
pub mod Seats
