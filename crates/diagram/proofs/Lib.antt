pub mod Steps
pub mod Parts
pub mod Cofactors
pub mod Settings
pub mod Marks
pub mod Chains
