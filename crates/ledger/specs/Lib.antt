pub mod View
pub mod Taking
pub mod Reading
