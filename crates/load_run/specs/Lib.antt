pub mod Failures
pub mod Line
pub mod Merging
pub mod Restoring
pub mod Running
