pub mod Passing
pub mod Left
pub mod Ends
