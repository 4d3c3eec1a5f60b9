pub mod Listing
pub mod Loading
pub mod Telling
