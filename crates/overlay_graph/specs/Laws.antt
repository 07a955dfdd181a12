-- The laws behind the proofs of this crate: nothing here is cited by a contract.
pub mod Standing
pub mod CutLaws
pub mod Sweeping
pub mod Drawing
pub mod Zeros
pub mod Tracing
pub mod Backwards
