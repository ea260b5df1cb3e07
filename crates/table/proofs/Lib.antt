pub mod Families
pub mod Stores
pub mod Probes
pub mod Canon
pub mod Tables
pub mod Grown
pub mod Making
pub mod Crowding
