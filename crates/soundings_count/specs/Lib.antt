pub mod Entries
pub mod PutCell
pub mod InOrder
pub mod Handed
