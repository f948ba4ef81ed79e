pub mod Answers
pub mod Body
pub mod Conversation
pub mod Cuts
pub mod Reply
pub mod Sent
pub mod Stream
pub mod Asked
