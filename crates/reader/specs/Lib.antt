pub mod Agreement
pub mod Kept
pub mod Lines
pub mod Read
pub mod Reading
pub mod Recording
pub mod Steps
pub mod Transfers
