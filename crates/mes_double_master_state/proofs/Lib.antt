pub mod IdLemmas
pub mod UpdateLemmas
