pub mod OlderRead
pub mod ReadWritten
pub mod WrittenRead
