pub mod Answering
pub mod Bursts
pub mod Refusing
pub mod Starting
pub mod Telling
pub mod Worlds
