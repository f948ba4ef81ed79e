pub mod Answering
pub mod Command
pub mod Counting
pub mod Known
pub mod Lines
pub mod Reading
pub mod Replay
pub mod Taking
