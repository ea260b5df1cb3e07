pub mod Codes
pub mod Members
pub mod Sets
mod Marked
mod Progress
