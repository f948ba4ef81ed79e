pub mod Kept
pub mod Sizes
pub mod KindStays
