pub mod SegmentLaws
pub mod NameLaws
pub mod SameLaws
pub mod ItemLaws
pub mod PairLaws
pub mod ListLaws
pub mod ViewLaws
pub mod KeyLaws
