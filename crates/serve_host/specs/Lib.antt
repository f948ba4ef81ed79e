pub mod Drawing
pub mod Events
pub mod Listening
pub mod Passing
pub mod Tracing
