pub mod Rules
pub mod Stored
pub mod Grammar
pub mod Places
pub mod Refusals
pub mod Steps
pub mod Theorems
