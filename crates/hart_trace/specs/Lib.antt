pub mod Asks
pub mod Kept
pub mod Looks
pub mod Shown
pub mod States
pub mod Stopped
pub mod Traces
