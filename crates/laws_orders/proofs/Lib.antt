pub mod FromCheck
pub mod CheckRefused
pub mod Orders
pub mod Other
pub mod TwoMaps
