pub mod Rules
pub mod Judge
