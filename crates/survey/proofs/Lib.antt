pub mod Chains
pub mod Tallies
