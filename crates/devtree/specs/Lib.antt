pub mod Coding
pub mod Flat
pub mod Machine
pub mod Tree
