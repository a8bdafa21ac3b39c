pub mod GatherLaws
pub mod SomeLaws
pub mod MarkLaws
pub mod RuleLaws
pub mod KeyLaws
