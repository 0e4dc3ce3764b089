pub mod KeptLemmas
pub mod HistoryLemmas
pub mod SessionLemmas
pub mod ReplayLemmas
pub mod LeftLemmas
pub mod ReportLemmas
