pub mod Token
pub mod Layout
pub mod Types
pub mod Tree
pub mod Tokens
pub mod Rules
pub mod Reading
