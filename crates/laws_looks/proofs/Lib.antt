pub mod Files
pub mod Ordered
