pub mod Breaks
pub mod Values
pub mod Spelled
pub mod Unique
