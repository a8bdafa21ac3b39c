pub mod LocalLaws
