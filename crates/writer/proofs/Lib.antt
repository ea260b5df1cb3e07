pub mod Puts
pub mod Blocks
pub mod Below
pub mod Sizes
pub mod Written
