pub mod Copied
pub mod GoingOn
mod Moving
pub mod Ready
mod Resets
