pub mod Collected
pub mod Cut
pub mod Traced
pub mod Given
pub mod Laws
