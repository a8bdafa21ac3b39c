pub mod BitLaws
pub mod FieldLaws
pub mod WidthLaws
pub mod CheckLaws
pub mod TableLaws
pub mod CodeLaws
pub mod YieldLaws
