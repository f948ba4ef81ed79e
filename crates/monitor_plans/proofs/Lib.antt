pub mod DevicesMade
pub mod DrivesAsked
pub mod Headings
pub mod Heads
pub mod LimitsHeld
pub mod Loads
pub mod NetsMade
pub mod Standing
