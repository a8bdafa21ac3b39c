mod PutLaws
mod FieldLaws
pub mod EdgeLaws
