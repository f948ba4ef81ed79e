pub mod Copies
pub mod Runs
pub mod Headers
pub mod Diffs
pub mod Found
