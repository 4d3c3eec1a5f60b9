pub mod Stands
pub mod View
pub mod Assumes
