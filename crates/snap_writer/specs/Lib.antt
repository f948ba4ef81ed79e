pub mod Blocks
pub mod Create
pub mod Moments
pub mod Saving
pub mod Selected
