pub mod Sink
pub mod Copying
