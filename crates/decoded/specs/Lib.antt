pub mod Fits
pub mod Names
pub mod Editions
