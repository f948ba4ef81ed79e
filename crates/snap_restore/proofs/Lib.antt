pub mod BlockReads
pub mod Both
pub mod Judged
pub mod Starts
