pub mod Merged
pub mod Restored
