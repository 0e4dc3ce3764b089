pub mod Worlds
pub mod Courses
pub mod Memory
pub mod Promises
