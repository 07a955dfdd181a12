pub mod Thinned
pub mod Laws
