pub mod MasterLemmas
pub mod CourseLemmas
pub mod WorkLemmas
pub mod SessionLemmas
pub mod RunLemmas
pub mod TurnLemmas
pub mod AckedLemmas
pub mod AgreeLemmas
