pub mod Capped
pub mod Run
pub mod Tallies
