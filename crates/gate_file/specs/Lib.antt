pub mod Gate
pub mod Moments
pub mod Reading
pub mod Runs
pub mod Stages
pub mod Pairs
