pub mod Held
pub mod Questions
