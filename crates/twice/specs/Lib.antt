pub mod Rounds
pub mod Agreeing
