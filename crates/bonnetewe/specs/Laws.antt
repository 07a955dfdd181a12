-- The laws behind the proofs of this crate: nothing here is cited by a contract.
pub mod Means
pub mod Sound
pub mod Mends
pub mod Melted
pub mod Edges
pub mod Meets
pub mod Heights
pub mod Cells
