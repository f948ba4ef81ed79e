pub mod Behind
mod Boards
pub mod Lines
mod Off
mod Readiness
mod Replies
mod Scripts
