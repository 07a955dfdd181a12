pub mod Orders
pub mod Exchanged
pub mod Empty
pub mod FromCheck
pub mod LastRows
pub mod TwoMaps
