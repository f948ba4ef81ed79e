pub mod Dashes
pub mod Entering
mod Monitor
mod NumberReads
pub mod OptionNames
pub mod OptionReads
pub mod OptionRules
pub mod Turns
