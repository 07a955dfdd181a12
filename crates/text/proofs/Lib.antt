-- Laws that the proofs of the functions cite.
pub mod DigitsLaws
pub mod LineLaws
pub mod GapsLaws
