pub mod Views
pub mod Distinct
pub mod Rows
pub mod Standing
