pub mod StateLemmas
pub mod StateFaults
