pub mod PassLaws
