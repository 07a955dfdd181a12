pub mod Listed
pub mod Filed
pub mod Laws
