pub mod AllNamed
pub mod Alone
pub mod Answering
pub mod Bringing
pub mod Closing
pub mod Connections
pub mod Filing
pub mod Halting
pub mod Pieces
mod Sending
pub mod Settling
pub mod Slices
pub mod Turns
pub mod Waiting
