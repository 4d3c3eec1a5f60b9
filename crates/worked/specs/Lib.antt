pub mod Worked
pub mod Derived
pub mod Cases
