pub mod Spot
