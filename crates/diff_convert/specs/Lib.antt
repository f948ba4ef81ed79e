pub mod Converting
pub mod Planning
