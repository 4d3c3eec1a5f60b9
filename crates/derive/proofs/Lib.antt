pub mod Marks
pub mod Derive
