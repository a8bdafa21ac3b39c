pub mod JudgeLaws
pub mod WrittenLaws
mod TableLaws
