pub mod Cores
pub mod Faults
pub mod Dealing
