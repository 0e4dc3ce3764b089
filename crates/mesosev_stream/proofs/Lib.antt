mod ConvertLemmas
mod ExportReads
pub mod FewMessages
mod FollowReads
mod GatherLemmas
mod HoldLemmas
mod JsonLineLemmas
mod LineNumberLemmas
pub mod PrintLemmas
pub mod ShowLemmas
mod WordLemmas
