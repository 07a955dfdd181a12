-- The laws behind the proofs of this crate, and what the thinned tables are of an overlay's: its melted graph. Nothing here is cited by a contract.
pub mod Moving
pub mod Marking
pub mod Tables
pub mod Melted
