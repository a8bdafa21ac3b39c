pub mod SearchLaws
pub mod RingRule
pub mod EveryLaws
