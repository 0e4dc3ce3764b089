pub mod Keys
pub mod Fits
pub mod Launched
pub mod Looking
pub mod Pouring
pub mod Batches
