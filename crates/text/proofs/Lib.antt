pub mod TextLaws
pub mod CharLaws
