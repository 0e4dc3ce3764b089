pub mod SlotLemmas
pub mod UpdateKeyLemmas
pub mod LookLemmas
pub mod DuplicateLemmas
pub mod NamedLemmas
pub mod FirstLemmas
pub mod RefusalLemmas
