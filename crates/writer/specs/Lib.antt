pub mod Puts
pub mod Lines
pub mod Below
pub mod Written
