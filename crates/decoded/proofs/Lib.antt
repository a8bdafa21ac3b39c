pub mod Extends
pub mod Decoded
pub mod Accepted
pub mod Kept
