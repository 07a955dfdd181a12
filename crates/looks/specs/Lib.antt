pub mod Ordering
pub mod Ordered
pub mod Halved
pub mod Rails
pub mod Railed
pub mod Files
pub mod Straying
