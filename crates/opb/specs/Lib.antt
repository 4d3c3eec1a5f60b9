pub mod Sheets
pub mod Language
