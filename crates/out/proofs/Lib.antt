pub mod BlockLaws
pub mod EntryLaws
pub mod PendingLaws
pub mod StateLaws
pub mod FlushLaws
pub mod PlaceLaws
