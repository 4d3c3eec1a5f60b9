pub mod Reforming
pub mod Words
