pub mod Bound
pub mod Cases
pub mod Nearest
