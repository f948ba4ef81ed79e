pub mod Actors
pub mod Ends
pub mod Lines
pub mod Numbers
pub mod Words
