pub mod Keeping
pub mod Later
pub mod Lengths
