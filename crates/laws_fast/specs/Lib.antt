pub mod Below
pub mod Clashes
pub mod Keys
pub mod Looks
pub mod Sides
