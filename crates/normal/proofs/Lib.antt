pub mod Lengths
pub mod Crowds
