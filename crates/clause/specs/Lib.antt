pub mod Once
pub mod Codes
