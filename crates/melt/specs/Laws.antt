-- The laws behind the proofs of this crate: nothing here is cited by a contract.
pub mod Drawn
pub mod Left
pub mod Judged
