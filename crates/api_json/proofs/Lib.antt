pub mod FormLemmas
pub mod IdLemmas
pub mod CallLemmas
