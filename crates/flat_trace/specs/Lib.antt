pub mod Events
pub mod Replays
pub mod Showing
