-- The laws behind the proofs of this crate: nothing here is cited by a contract.
pub mod Linking
pub mod Telling
pub mod Numbered
