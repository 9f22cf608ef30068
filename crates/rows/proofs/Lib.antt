pub mod Filling
pub mod Growing
