pub mod Answered
pub mod Created
pub mod Loaded
pub mod On
pub mod Listing
