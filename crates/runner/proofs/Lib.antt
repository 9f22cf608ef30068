pub mod Answering
pub mod Calling
pub mod Hexes
pub mod Listing
pub mod Progress
