pub mod Items
pub mod Symbol
pub mod Mangle
pub mod Types
