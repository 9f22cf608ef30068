pub mod Filled
pub mod Rows
