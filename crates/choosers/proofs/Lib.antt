pub mod Unbeaten
