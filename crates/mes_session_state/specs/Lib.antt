pub mod Keeping
pub mod Held
pub mod Slots
pub mod Calls
pub mod Refusals
pub mod Looking
