pub mod FoundLaws
pub mod RowLaws
