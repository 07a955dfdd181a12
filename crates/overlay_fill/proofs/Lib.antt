pub mod StoredLaws
pub mod JudgeLaws
pub mod FilesLaws
