pub mod Views
pub mod Rule
pub mod Acts
pub mod Blanks
pub mod Steps
