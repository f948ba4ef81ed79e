pub mod Header
pub mod Operations
