pub mod Spelled
pub mod FileKinds
pub mod Listing
pub mod Planning
pub mod Keeping
pub mod Creating
pub mod Unfinished
