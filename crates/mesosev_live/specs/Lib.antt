pub mod Transfers
pub mod Lines
pub mod Runs
pub mod Serving
pub mod Inputs
pub mod Desks
pub mod LiveDesks
pub mod Stops
