pub mod Loops
pub mod Told
