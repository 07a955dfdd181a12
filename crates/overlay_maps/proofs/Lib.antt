pub mod PartLaws
pub mod LabelLaws
pub mod StackLaws
pub mod RoomLaws
pub mod HeldLaws
