pub mod Devices
pub mod Framing
pub mod Giving
pub mod Hosting
pub mod Storing
pub mod Telling
