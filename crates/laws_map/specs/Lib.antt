pub mod Keeps
pub mod Rules
pub mod Passes
pub mod Refused
pub mod Files
