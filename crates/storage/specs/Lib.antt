pub mod Cells
pub mod Fetching
pub mod Storing
