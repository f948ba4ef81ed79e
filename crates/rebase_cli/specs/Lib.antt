pub mod Words
pub mod Said
pub mod Ends
pub mod Command
