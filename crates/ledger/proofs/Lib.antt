pub mod Keeping
pub mod Entering
pub mod Closed
