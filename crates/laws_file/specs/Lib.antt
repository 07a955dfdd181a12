pub mod Bytes
pub mod Stands
pub mod Agree
pub mod Placed
pub mod EdgeFields
pub mod Fields
