-- Laws that the proofs of the functions cite.
pub mod KeptLaws
pub mod RoomLaws
pub mod GraphLaws
pub mod PartsLaws
pub mod LoadedLaws
pub mod NetLaws
pub mod ReadLaws
