pub mod Messages
pub mod RecordFaults
pub mod Texts
