pub mod Lines
pub mod Results
pub mod Runs
pub mod Sizes
