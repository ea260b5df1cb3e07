pub mod Normal
pub mod Told
