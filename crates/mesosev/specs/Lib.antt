pub mod Reporting
pub mod Running
