-- The laws behind the proofs of this crate: nothing here is cited by a contract.
pub mod Decode
pub mod Firsts
pub mod Threads
pub mod Threaded
