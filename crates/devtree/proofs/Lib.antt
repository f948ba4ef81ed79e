pub mod Bytes
pub mod Nodes
pub mod Passes
pub mod Sizes
