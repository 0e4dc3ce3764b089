pub mod Attributes
pub mod Offers
pub mod TextValues
pub mod FirstFaults
