pub mod Preferred
pub mod Laws
pub mod Listings
