pub mod AgreesTest
pub mod Disagreeing
pub mod NamesLaws
