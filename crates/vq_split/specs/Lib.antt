pub mod Chain
pub mod Inside
pub mod Kept
pub mod Walking
