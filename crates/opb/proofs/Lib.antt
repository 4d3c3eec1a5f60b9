pub mod Exact
pub mod Narrow
pub mod Tokens
pub mod Sums
pub mod Lines
pub mod Whole
