pub mod Records
pub mod Runs
pub mod Carried
pub mod Lines
