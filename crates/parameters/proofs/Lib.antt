pub mod ParameterLaws
