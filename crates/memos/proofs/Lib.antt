pub mod Verdicts
pub mod Slotting
pub mod Counts
pub mod Noted
pub mod Lengths
