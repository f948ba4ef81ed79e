pub mod Hears
pub mod Items
pub mod Replies
pub mod Talks
