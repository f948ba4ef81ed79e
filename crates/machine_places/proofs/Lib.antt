pub mod Feeding
pub mod Growing
pub mod Indexing
pub mod Named
pub mod Taken
