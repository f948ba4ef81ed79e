pub mod Decoded
pub mod Operations
pub mod Words
