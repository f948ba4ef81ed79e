pub mod Fits
pub mod Harts
