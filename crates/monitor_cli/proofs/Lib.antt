pub mod Arriving
pub mod Commanding
mod Counts
mod EndTexts
pub mod Finishing
mod Halting
mod Parts
