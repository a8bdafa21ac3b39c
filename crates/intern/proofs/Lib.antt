pub mod InternLaws
