pub mod Fields
pub mod FileJobs
pub mod Jobs
pub mod Kinds
pub mod Left
pub mod Offsets
pub mod Reading
pub mod Said
