pub mod Gathering
pub mod Marking
pub mod Reading
pub mod Keys
