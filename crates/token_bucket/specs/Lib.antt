pub mod Rate
pub mod Allowance
pub mod Kept
pub mod Window
