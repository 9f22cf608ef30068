pub mod Cases
pub mod Play
