pub mod TypeAt
