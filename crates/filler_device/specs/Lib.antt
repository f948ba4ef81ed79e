pub mod Filler
pub mod Sequences
pub mod Work
