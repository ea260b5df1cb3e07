pub mod Numbered
pub mod Outcomes
pub mod Tests
