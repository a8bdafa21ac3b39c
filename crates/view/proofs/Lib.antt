pub mod PartLaws
pub mod ItemLaws
pub mod FunctionLaws
pub mod ArgumentLaws
pub mod TypeLaws
pub mod SkipLaws
pub mod WholeLaws
pub mod FormLaws
