pub mod Grows
pub mod Standing
pub mod Sides
pub mod Positions
