pub mod Items
pub mod Lines
pub mod Output
pub mod Reader
pub mod Written
