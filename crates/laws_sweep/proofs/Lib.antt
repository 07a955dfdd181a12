pub mod Maps
pub mod Step
pub mod Stops
pub mod Through
pub mod Turn
