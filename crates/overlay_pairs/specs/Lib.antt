pub mod Labels
pub mod Pairs
