mod Examples
pub mod Largest
pub mod Lives
pub mod Moves
pub mod Takes
pub mod Waits
pub mod Windows
