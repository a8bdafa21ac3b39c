pub mod Checking
pub mod Yielding
