pub mod TypeLaws
pub mod ShapeLaws
pub mod FunctionLaws
pub mod CommaLaws
pub mod ArgumentLaws
pub mod ExternLaws
