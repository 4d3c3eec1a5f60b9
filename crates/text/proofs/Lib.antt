pub mod Runs
pub mod Steps
pub mod Progress
pub mod Shown
pub mod Made
pub mod Said
pub mod Spelling
pub mod Exact
