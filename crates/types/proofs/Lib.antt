pub mod KindLaws
pub mod TypeLaws
pub mod MarkLaws
