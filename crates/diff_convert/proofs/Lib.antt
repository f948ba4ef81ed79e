pub mod Places
pub mod Planned
pub mod Leaving
