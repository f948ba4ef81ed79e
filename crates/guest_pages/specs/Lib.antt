pub mod Code
pub mod Fitting
pub mod Flat
pub mod Made
pub mod Marks
pub mod Pages
pub mod Slots
pub mod Words
