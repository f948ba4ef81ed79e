pub mod Frames
pub mod Net
pub mod Port
pub mod Sequences
pub mod States
pub mod Work
