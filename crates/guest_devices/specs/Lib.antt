pub mod Devices
pub mod Kept
pub mod Kinds
pub mod Moments
pub mod Narrow
pub mod Ports
pub mod Sound
