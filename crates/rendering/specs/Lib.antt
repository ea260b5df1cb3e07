pub mod Render
pub mod Trip
pub mod Sample
