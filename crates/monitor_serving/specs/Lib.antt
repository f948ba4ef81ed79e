pub mod Causes
pub mod Connections
pub mod Ends
pub mod Gating
pub mod Hearing
pub mod Turns
pub mod Views
