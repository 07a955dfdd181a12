-- The laws behind the proofs of this crate: nothing here is cited by a contract.
pub mod Slots
pub mod Corners
pub mod Mapped
pub mod Met
