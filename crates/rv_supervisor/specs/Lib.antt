pub mod Csrs
pub mod Ends
pub mod Integers
pub mod Registers
pub mod Start
pub mod Wholes
