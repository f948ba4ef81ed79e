pub mod Choices
pub mod Fields
pub mod Opcodes
pub mod Split
