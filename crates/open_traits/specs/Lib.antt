pub mod Alternates
pub mod Lasts
pub mod Shown
