pub mod Gains
