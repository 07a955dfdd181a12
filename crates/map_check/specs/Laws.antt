-- The laws behind the proofs of this crate: nothing here is cited by a contract.
pub mod Kept
pub mod Rising
pub mod Picks
pub mod Walking
pub mod Makers
pub mod Disagree
pub mod LinkedLaws
