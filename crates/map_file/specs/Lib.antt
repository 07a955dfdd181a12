pub mod Verdict
pub mod Rows
pub mod Places
pub mod Header
