pub mod Counting
pub mod Worked
pub mod Gain
pub mod Order
pub mod Rounds
pub mod Ranks
