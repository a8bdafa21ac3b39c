pub mod InnerLaws
mod ChainLaws
