pub mod Output
pub mod Responses
