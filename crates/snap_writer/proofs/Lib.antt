pub mod Both
pub mod Runs
pub mod Selecting
pub mod Crashing
pub mod ByKind
pub mod Moments
