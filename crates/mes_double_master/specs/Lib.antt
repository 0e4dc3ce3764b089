pub mod Agents
pub mod Masters
pub mod Memory
pub mod Names
pub mod Sending
pub mod Runs
