pub use Rattle.mes_session_log_entry.specs.Entries
pub mod Logs
pub mod LogStages
pub mod Writing
pub mod Encoding
