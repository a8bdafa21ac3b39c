pub mod BoolLaws
pub mod ByteLaws
pub mod LaneLaws
pub mod NameLaws
