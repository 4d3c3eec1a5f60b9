pub mod Sum
pub mod Summed
pub mod Made
pub mod Rule
pub mod Taken
pub mod Placed
