pub mod BatchLemmas
pub mod BreachLemmas
pub mod FitsLemmas
pub mod KeyLemmas
pub mod LaunchedLemmas
pub mod ListLemmas
pub mod LookLemmas
pub mod PourLemmas
