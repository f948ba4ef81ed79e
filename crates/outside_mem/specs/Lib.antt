pub mod Logged
pub mod Saving
pub mod Writes
pub mod Images
pub mod Devices
pub mod Listing
pub mod Pasts
