pub mod Fetching
pub mod Naming
pub mod Digests
