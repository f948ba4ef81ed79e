pub mod Allowed
pub mod Loading
pub mod Living
pub mod Passing
pub mod SmallLimits
