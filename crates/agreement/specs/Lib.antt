pub mod Agreement
pub mod Atoms
pub mod Names
