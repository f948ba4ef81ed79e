pub mod Listed
pub mod Rooms
