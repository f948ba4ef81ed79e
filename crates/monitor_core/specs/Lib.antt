pub mod Going
pub mod Hearing
pub mod Lending
pub mod Replying
pub mod State
pub mod Talking
