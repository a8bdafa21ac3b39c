pub mod ByteLoops
pub mod OrderLaws
pub mod ShapeLaws
pub mod WalkLaws
pub mod TableLaws
