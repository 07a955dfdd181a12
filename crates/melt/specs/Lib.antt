pub mod Melted
pub mod Laws
pub mod Unique
