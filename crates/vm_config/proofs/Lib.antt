pub mod Apart
pub mod DeviceLemmas
pub mod NamedLemmas
pub mod NumberLemmas
pub mod TextLemmas
