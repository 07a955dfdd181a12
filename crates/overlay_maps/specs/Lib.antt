pub mod Label
pub mod Place
pub mod Ended
pub mod Standing
pub mod Refused
pub mod Layers
pub mod Held
pub mod Given
