pub mod Marks
pub mod Ready
pub mod Steps
pub mod Stepping
pub mod Keeping
