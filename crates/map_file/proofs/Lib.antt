-- Laws that the proofs of the functions cite.
pub mod VerdictLaws
pub mod PlacesLaws
