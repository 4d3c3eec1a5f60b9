pub mod Reform
