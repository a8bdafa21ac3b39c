pub mod EndToEnd
