pub mod Entropy
pub mod Port
pub mod Sequences
pub mod States
pub mod Words
pub mod Work
pub mod Written
