pub mod Gate
pub mod Passing
pub mod Saved
pub mod Small
pub mod Lives
