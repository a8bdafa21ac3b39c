pub mod Block
pub mod Out
pub mod Nested
pub mod WriteType
pub mod Write
