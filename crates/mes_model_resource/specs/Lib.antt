pub mod Ids
pub mod Reservations
pub mod Resources
pub mod FirstFaults
pub mod Values
