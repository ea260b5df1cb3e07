pub mod Values
pub mod Endings
pub mod Starts
pub mod Steps
pub mod Walks
pub mod Judging
