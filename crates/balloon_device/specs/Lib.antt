pub mod Balloon
pub mod Pages
pub mod Pieces
pub mod Port
pub mod Sequences
pub mod States
pub mod Statistics
pub mod Work
