pub mod Keys
pub mod Steps
pub mod Stored
pub mod Ready
pub mod Answers
pub mod Unique
pub mod Promise
