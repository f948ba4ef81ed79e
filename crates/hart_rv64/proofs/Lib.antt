pub mod Ends
pub mod Fetching
pub mod Walks
