-- In reading order. A layout has one list of tokens:
pub mod Lexer
pub mod LexedLayout
-- and tokens have one tree:
pub mod SameTokens
pub mod Parser
pub mod Decimal
pub mod TypeBack
pub mod RuleFacts
pub mod ListBack
pub mod ItemBack
pub mod TextBack
pub mod Braces
pub mod Unique
-- Readings by computation:
pub mod Literal
pub mod Checked
pub mod Computing
pub mod Forms
pub mod Examples
pub mod Choices
-- Readings by composition:
pub mod Pieces
