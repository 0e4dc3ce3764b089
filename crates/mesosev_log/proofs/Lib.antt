mod ReplayLemmas
mod SessionLemmas
