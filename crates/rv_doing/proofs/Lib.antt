pub mod Placing
pub mod Widths
