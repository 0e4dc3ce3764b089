mod WordLemmas
pub mod RecordLemmas
