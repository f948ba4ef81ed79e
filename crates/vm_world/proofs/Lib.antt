mod Beginning
pub mod Events
mod Listed
mod Resets
pub mod Running
pub mod Bursting
pub mod Operations
