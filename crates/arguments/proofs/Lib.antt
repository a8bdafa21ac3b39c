pub mod ErrorLaws
pub mod ArgumentLaws
pub mod PairLaws
