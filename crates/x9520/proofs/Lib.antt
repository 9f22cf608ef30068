pub mod Alone
pub mod Standing
pub mod Lock
pub mod Calm
pub mod Place
pub mod Waiting
pub mod Locks
pub mod Settling
