pub mod Copying
pub mod GoingOn
pub mod Ready
