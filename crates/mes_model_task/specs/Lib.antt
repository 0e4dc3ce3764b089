pub mod Owed
pub mod TaskStates
pub mod TaskStatuses
pub mod Tasks
pub mod Times
pub mod FirstFaults
