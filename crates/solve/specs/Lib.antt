pub mod Listed
pub mod Loads
