pub mod SummaryLaws
pub mod LengthLaws
pub mod HeldLaws
