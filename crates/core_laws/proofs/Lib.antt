pub mod Steps
pub mod Handed
