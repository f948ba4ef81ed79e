pub mod Calls
pub mod Crashes
pub mod Filing
pub mod Known
pub mod Passing
