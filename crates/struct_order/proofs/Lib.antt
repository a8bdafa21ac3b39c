mod ListLaws
pub mod Legal
pub mod ServeLaws
