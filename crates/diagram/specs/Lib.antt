pub mod Parts
pub mod Cofactors
