pub mod Sum
pub mod Rule
pub mod Terms
pub mod Words
