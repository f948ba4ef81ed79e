pub mod Beginnings
pub mod Causes
pub mod Closings
pub mod Endings
pub mod Lineages
pub mod Serves
mod Refusals
