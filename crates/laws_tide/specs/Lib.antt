pub mod AtMost
pub mod Nearest
pub mod Bound
pub mod Pattern
pub mod Range
pub mod Ends
pub mod Cases
pub mod Unused
