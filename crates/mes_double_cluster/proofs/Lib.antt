pub mod ListLemmas
pub mod TimeLemmas
pub mod RoundLemmas
pub mod TaskLemmas
pub mod FittingLemmas
