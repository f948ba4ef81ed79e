pub mod Fitting
pub mod Keeping
pub mod Laws
pub mod Leading
pub mod Moving
pub mod Performs
pub mod Traces
