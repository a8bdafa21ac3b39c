pub mod ListLaws
pub mod SharedLaws
pub mod GroupLaws
pub mod ViewLaws
