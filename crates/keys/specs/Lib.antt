pub mod Cells
pub mod Rows
pub mod Turn
