-- Laws that the proofs of the functions cite.
pub mod HeadLaws
pub mod FillLaws
pub mod ReadLaws
pub mod SoundLaws
