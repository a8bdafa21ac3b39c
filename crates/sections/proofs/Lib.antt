pub mod StateLaws
pub mod ShimLaws
