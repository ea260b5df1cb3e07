pub mod Sides
pub mod Ordered
pub mod Laws
pub mod Formed
