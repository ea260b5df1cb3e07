pub mod Numbers
pub mod Settings
pub mod Scans
pub mod Steps
pub mod Bindings
pub mod Runs
pub mod Listings
