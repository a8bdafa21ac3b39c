pub mod Computing
pub mod ByHand
pub mod Reserved
pub mod Mill
pub mod Sheets
pub mod Editions
pub mod MillReading
pub mod TreeNames
