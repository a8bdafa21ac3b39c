pub mod Spelling
pub mod TypeLaws
mod SpellLaws
mod ListLaws
