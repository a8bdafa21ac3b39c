pub mod Demand3
pub mod Names
pub mod Editions
