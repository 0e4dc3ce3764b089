pub mod Texts
pub mod Sessions
pub mod Records
pub mod Replays
pub mod StreamRecords
pub mod FitTexts
