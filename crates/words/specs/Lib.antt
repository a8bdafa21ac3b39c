pub mod Words
pub mod Walking
