pub mod After
pub mod Agreeing
pub mod Changing
pub mod Keeping
pub mod Rises
pub mod Unique
pub mod Words
