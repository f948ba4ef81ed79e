pub mod Later
pub mod Merges
pub mod Restored
