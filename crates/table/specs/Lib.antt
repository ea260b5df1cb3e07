pub mod Places
pub mod Probing
pub mod Tables
pub mod Sets
pub mod Laws
