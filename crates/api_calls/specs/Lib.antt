pub mod Addresses
pub mod Form
pub mod Fields
pub mod Routes
pub mod Call
pub mod Drives
pub mod Interfaces
pub mod Limits
