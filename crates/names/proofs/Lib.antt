mod FetchLaws
pub mod NameLaws
pub mod DigestLaws
pub mod NamedLaws
mod JudgeLaws
