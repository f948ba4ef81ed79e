mod Filtered
pub mod Histories
