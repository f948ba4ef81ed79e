pub mod Begun
pub mod Fetching
pub mod Lending
pub mod Start
