pub mod Meaning
pub mod Sessions
