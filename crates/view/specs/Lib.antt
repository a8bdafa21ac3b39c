pub mod Values
pub mod Views
