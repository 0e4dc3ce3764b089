pub mod Ids
pub mod Updates
pub mod Events
