pub mod Filler
pub mod Passing
pub mod Resuming
pub mod Staying
