pub mod AppendLaws
pub mod KeyLaws
pub mod MarkLaws
pub mod StepLaws
pub mod ByteLaws
pub mod ListLaws
pub mod TableLaws
pub mod OutcomeLaws
