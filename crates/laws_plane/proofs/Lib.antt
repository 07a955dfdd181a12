pub mod Angles
pub mod Boxes
