mod SheetLaws
pub mod AnswerLaws
