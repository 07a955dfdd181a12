-- The laws behind the proofs of this crate: nothing here is cited by a contract.
pub mod Ordered
pub mod LinkedRows
pub mod NewRow
pub mod LaidRows
pub mod Holds
pub mod CrossedAre
pub mod VerticesAre
pub mod EdgesAre
pub mod NetLaws
pub mod NetAre
pub mod NetBounds
pub mod Threading
pub mod Remembering
pub mod Along
