pub mod Notes
pub mod Rows
pub mod Blanks
pub mod Slots
pub mod Keeps
pub mod Laws
