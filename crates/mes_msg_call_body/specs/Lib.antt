pub mod CallBodies
pub mod Operations
