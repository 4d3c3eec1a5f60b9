pub mod Parts
pub mod Progress
pub mod Exact
