pub mod Graph
pub mod Sort
pub mod Crate
pub mod Adjacency
