pub mod TypeTree
pub mod DeclarationTree
pub mod ShimTree
