pub mod Limits
pub mod Decode
pub mod Bits
pub mod Types
pub mod Sheet
pub mod Decoding
