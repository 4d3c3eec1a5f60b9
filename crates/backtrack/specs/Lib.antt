pub mod Walk
pub mod Clause
