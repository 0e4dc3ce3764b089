pub mod Relogging
pub mod SessionJson
pub mod Replaying
