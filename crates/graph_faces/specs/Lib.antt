pub mod Lead
pub mod Turns
pub mod Walked
pub mod Climbs
pub mod Linked
pub mod Sides
pub mod Kinds
pub mod Laws
