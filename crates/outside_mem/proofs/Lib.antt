pub mod Giving
pub mod GuestWords
pub mod Naming
pub mod ReadPieces
pub mod Steps
pub mod Wires
