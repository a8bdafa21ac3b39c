pub mod Summaries
pub mod Places
pub mod Ends
