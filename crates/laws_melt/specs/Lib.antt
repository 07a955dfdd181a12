pub mod Part
pub mod Thin
pub mod Melts
pub mod Stored
pub mod Neat
pub mod Fewer
pub mod MeltEmpty
pub mod Whole
