pub mod RowLaws
pub mod CharLaws
