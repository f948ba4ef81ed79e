pub mod ActorForms
pub mod Ends
pub mod LineReads
pub mod LineWrites
pub mod Scripts
