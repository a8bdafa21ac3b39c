pub mod SegmentLaws
pub mod NameLaws
pub mod FullLaws
