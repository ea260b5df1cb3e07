pub mod Makes
pub mod Outputs
