pub mod Carried
pub mod Copies
pub mod Files
pub mod Found
pub mod Unwritten
pub mod Ready
pub mod Bytes
