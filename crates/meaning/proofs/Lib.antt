pub mod Balance
pub mod Tables
pub mod Sound
pub mod Layouts
