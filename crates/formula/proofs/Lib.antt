pub mod Begun
pub mod Ends
pub mod Positions
pub mod Same
