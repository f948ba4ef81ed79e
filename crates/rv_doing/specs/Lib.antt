pub mod Accesses
pub mod Does
pub mod Doing
pub mod HartOps
pub mod Plain
pub mod Replies
pub mod Sbi
pub mod Values
