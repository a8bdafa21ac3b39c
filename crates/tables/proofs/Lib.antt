pub mod TableLaws
pub mod MetLaws
mod FillLaws
mod PairLaws
pub mod PoolLaws
pub mod TypeLaws
