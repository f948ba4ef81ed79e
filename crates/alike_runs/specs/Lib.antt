pub mod Alike
pub mod Files
pub mod Twins
