pub mod Entries
pub mod Lettered
pub mod EntryData
