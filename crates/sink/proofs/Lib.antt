pub mod SinkLaws
pub mod StoreLaws
mod DigitLaws
pub mod ServiceLaws
pub mod CopyLaws
