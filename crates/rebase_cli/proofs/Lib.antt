pub mod Lines
mod Reading
pub mod Stops
pub mod Spares
