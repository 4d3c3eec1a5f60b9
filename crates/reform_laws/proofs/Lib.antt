pub mod Fresh
pub mod Reform
