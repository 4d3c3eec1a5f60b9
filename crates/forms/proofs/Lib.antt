pub mod Exactness
pub mod Progress
pub mod Totality
