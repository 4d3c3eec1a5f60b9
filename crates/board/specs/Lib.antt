pub mod Literal
pub mod Board
pub mod Trouble
