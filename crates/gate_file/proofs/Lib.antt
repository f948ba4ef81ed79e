pub mod Inserts
pub mod Leaving
pub mod Steps
pub mod Staging
pub mod Tearing
pub mod Fronts
pub mod Pairs
