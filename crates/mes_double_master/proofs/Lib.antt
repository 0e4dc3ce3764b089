pub mod AgainLemmas
pub mod BrokenLemmas
pub mod CountLemmas
pub mod FitLemmas
pub mod RunLemmas
pub mod ThereLemmas
