pub mod Plans
pub mod Random
pub mod Texts
