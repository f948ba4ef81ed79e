pub mod Members
pub mod Floats
mod Examples
