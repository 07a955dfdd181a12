pub mod Refusals
pub mod Room
