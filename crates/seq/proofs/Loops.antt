pub mod Searching
pub mod Weaving
