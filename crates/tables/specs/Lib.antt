pub mod Answers
pub mod Values
pub mod Rows
pub mod Found
pub mod Unique
pub mod Promise
